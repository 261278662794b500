mod Orders
