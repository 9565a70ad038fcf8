mod Starts
